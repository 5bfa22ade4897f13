pub mod Adding
mod Laboring
mod Tending
mod Clocking
