pub mod Hands
pub mod Living
pub mod Rising
pub mod Slips
