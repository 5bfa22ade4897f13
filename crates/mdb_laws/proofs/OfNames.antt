pub mod Plain
pub mod Published
pub mod Placed
pub mod Steps
pub mod Driver
