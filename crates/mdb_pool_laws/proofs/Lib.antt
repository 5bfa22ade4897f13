pub mod OfCloses
pub mod OfSearches
