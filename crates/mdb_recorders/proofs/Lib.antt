pub mod Recorded
mod Fronts
