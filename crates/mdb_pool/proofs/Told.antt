-- What a pool tells of itself.
pub mod OfItems
pub mod OfQueries
pub mod OfSome
pub mod ServicesOfClears
pub mod JobGenerations
pub mod Counts
