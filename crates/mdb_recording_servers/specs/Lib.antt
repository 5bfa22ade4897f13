pub mod ServerEvents
pub mod ServerLives
pub mod ServerRules
pub mod ServerStanding
pub mod ServerSteps
pub mod ServerTables
