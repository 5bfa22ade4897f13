pub mod Plain
pub mod Lists
pub mod PoolParts
pub mod PoolFacts
pub mod Servers
pub mod Known
pub mod Checks
pub mod Told
pub mod Steps
pub mod Spelled
pub mod Answered
mod Raised
mod SharedSteps
