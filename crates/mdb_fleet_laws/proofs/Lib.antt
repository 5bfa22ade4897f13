pub mod Parts
pub mod Steps
pub mod Opened
pub mod Following
pub mod Primaries
