-- An error marks a server Unknown or clears a service.
pub mod CurrentErrors
pub mod OfOperations
pub mod ClearsService
pub mod ServiceOfConnection
pub mod Outdated
pub mod WhichSteps
pub mod BecomesOfStep
pub mod ComesTo
pub mod PastLimits
pub mod Tells
pub mod ClearsPool
pub mod AtItsLimit
pub mod AtItsLimitByCheck
