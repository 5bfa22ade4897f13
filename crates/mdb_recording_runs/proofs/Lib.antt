pub mod Ended
pub mod Ending
pub mod Found
pub mod Lines
pub mod Pools
pub mod Taken
