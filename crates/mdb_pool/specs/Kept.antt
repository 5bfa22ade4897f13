-- What a pool keeps, and when it is what the pool's items say: the business of this crate alone.
pub mod Inner
pub mod Record
pub mod Keyed
pub mod Places
pub mod Values
pub mod Matching
pub mod Asking
pub mod Claiming
pub mod Clearing
pub mod Connecting
pub mod Body
