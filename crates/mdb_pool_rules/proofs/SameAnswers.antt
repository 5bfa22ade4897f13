-- What says the same is answered the same.
pub mod FactsOf
pub mod FailureAndClear
pub mod OneMoreItem
pub mod Queries
pub mod RefusalsOf
pub mod ServingOf
