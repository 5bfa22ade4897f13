pub mod Elections
pub mod Followed
pub mod Says
