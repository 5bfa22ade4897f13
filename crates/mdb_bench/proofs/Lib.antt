pub mod Crossing
mod Gathering
