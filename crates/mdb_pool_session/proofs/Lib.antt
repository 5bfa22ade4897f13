pub mod Acts
pub mod Ends
pub mod Stepping
pub mod Crossing
pub mod Values
pub mod Words
pub mod Slots
