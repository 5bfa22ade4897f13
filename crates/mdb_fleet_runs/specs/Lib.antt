pub mod Events
pub mod EventForms
pub mod Trials
pub mod Harnesses
pub mod FleetText
pub mod FleetRuns
