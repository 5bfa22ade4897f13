pub mod Recording
pub mod Writing
pub mod Written
