pub mod Answered
pub mod Ending
pub mod Complete
pub mod Writing
