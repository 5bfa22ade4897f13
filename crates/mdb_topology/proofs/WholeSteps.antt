-- Steps of a driver: what becomes of one, what it answers, and its log.
pub mod Stops
pub mod TopologyStep
pub mod PoolStep
pub mod QuietStep
pub mod RefusedOfNoPool
pub mod InTime
pub mod ComesBeforeMemory
pub mod CheckThenRule
pub mod OneMoreEntry
pub mod CoreOfManyPools
pub mod AnswersAsCore
