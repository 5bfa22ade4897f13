-- Worked examples, computed.
pub mod Balanced
pub mod Errors
pub mod Hosts
pub mod Jobs
pub mod Monitors
pub mod Refusals
pub mod ReplicaSet
pub mod Scripts
pub mod Waiting
