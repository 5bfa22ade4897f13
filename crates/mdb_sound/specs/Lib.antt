pub mod Counts
pub mod Laws
pub mod Once
pub mod Sound
pub mod Steady
