pub mod LineLemmas
mod Zips
mod Names
pub mod PoolTells
pub mod StateNames
pub mod Nameless
