mod Alike
mod Stale
mod Spared
mod Ordered
mod Marks
mod Runs
mod Parts
mod Published
mod Rules
mod Gone
mod Said
mod Caused
mod OpenFor
mod Risen
mod Causes
mod Opening
pub mod WholeLogs
pub mod OfHistories
pub mod OfCloses
pub mod OfNames
pub mod OfTelling
pub mod OfSearches
mod Answered
mod OfRefusals
pub mod WholeHeadline
