pub mod Counts
pub mod Following
pub mod Keeping
pub mod Numbered
pub mod Standing
