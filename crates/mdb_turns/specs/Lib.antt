pub mod Stepping
pub mod Turning
