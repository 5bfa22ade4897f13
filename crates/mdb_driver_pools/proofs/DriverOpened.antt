-- The driver that was just opened.
pub mod OpenFromTheStart
pub mod OpenedDriver
pub mod SeedsOnce
