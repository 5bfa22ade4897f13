pub mod Bools
pub mod Numbers
pub mod Pins
pub mod Frame
pub mod Later
pub mod Coming
pub mod Crossing
