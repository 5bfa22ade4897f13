-- The driver that was just opened.
pub mod StandsForIt
pub mod ItsLog
pub mod ScriptsLog
