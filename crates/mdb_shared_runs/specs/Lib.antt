pub mod Reading
pub mod Shares
pub mod Plays
pub mod Scripts
pub mod Runs
pub mod Headline
pub mod Program
