pub mod Crossing
pub mod Grown
pub mod Kept
pub mod Values
pub mod Words
pub mod Slots
pub mod Beforehand
pub mod Filled
