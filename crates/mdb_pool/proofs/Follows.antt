-- A change of the state follows the items of the pool.
pub mod Serving
pub mod ComingBack
pub mod GivingUp
pub mod Failing
pub mod Pinning
pub mod WholePool
pub mod Closing
pub mod Opening
pub mod Fits
pub mod PinsFit
pub mod Availability
pub mod Stale
pub mod CheckIn
