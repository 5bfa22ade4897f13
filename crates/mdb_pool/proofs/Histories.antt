-- Laws of whole histories of a pool.
pub mod GrantsAreFresh
pub mod OnePlaceEach
pub mod Resting
pub mod StepsInOrder
