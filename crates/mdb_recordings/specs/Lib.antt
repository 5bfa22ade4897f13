pub mod Events
pub mod Lives
pub mod Noting
pub mod Rules
pub mod Standing
pub mod Steps
pub mod Tables
