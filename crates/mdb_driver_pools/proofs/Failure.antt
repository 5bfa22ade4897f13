-- A pending connection fails: its pool is cleared or not, and its server is marked or not.
pub mod AcceptedAfterClear
pub mod OfItsPool
pub mod PoolsStand
