pub mod Fleets
