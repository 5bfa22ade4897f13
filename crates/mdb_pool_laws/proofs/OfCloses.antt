pub mod Quiet
pub mod Backs
pub mod Sweeps
pub mod Serving
pub mod Acts
pub mod Dues
pub mod Alone
