-- Monitors, their checks, and who waits for them.
pub mod NextCheck
pub mod StepAtMonitor
pub mod CheckBegins
pub mod CheckEnds
pub mod CheckFailed
pub mod FactsOfCheck
pub mod RoundTrips
pub mod LeftAlone
pub mod Watchers
pub mod ChangesNoPool
pub mod MonitorsOfPools
