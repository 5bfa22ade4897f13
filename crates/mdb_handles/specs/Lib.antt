pub mod Counting
pub mod Numbers
pub mod CheckingOut
pub mod Standing
pub mod Watching
pub mod Handles
