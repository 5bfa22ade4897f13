pub mod Serving
pub mod Alone
