pub mod SoundHistory
pub mod Opened
