pub mod Totalled
