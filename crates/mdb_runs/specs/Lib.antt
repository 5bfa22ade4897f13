pub mod Runs
pub mod Headline
pub mod Made
pub mod Tool
