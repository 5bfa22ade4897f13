pub mod Making
pub mod Hearing
pub mod Ticking
pub mod Filling
pub mod Establishing
pub mod Working
pub mod Persisting
pub mod Memory
