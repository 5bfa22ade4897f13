pub mod Naming
pub mod Texts
