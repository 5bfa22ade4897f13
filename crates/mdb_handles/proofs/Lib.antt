pub mod Crossing
mod Questions
mod Looking
mod Numbering
mod Waiting
