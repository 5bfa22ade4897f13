pub mod Seeds
pub mod Watching
pub mod Early
pub mod Between
pub mod Spelled
pub mod Complete
pub mod Written
