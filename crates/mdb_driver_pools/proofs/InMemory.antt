-- Memory has the pools in which something lives, and their monitors: what is found, changed and opened there is what is found, changed and opened among all.
pub mod ChangedPools
pub mod FoundLast
pub mod GonePools
pub mod LivingPools
pub mod NewParties
pub mod StillLives
pub mod VectorPutBack
