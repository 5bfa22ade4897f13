pub mod Closing
pub mod Crossing
pub mod Jobs
pub mod Sharing
pub mod Waited
