pub mod Accepted
pub mod Once
pub mod Outcomes
pub mod Logs
