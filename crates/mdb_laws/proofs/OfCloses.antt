pub mod Pools
pub mod Published
pub mod Soft
pub mod Steps
pub mod Failed
pub mod Duties
pub mod Driver
