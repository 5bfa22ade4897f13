pub mod Reaching
pub mod Asks
pub mod Once
pub mod Waiting
