-- Worked examples, computed.
pub mod Jobs
pub mod Pools
