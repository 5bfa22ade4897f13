pub mod PoolActs
pub mod PoolLogs
pub mod Lawful
pub mod Sessions
pub mod Holding
