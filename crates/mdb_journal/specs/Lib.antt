pub mod Entries
pub mod News
