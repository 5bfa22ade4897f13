pub mod Answered
pub mod Cuts
pub mod Domains
pub mod Examples
pub mod Laws
pub mod Options
pub mod Pairs
pub mod Strangers
