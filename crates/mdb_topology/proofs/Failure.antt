-- A pending connection fails: its pool is cleared or not, and its server is marked or not.
pub mod Answer
pub mod Becomes
pub mod FactsOf
pub mod MarkOfNoPool
pub mod Means
pub mod PastLimits
pub mod Plan
pub mod RefusedByItsPool
pub mod DriverStands
pub mod ClosesNoPool
pub mod Trouble
pub mod Follows
