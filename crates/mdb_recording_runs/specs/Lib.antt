pub mod Cutting
pub mod Keeping
pub mod Report
pub mod Runs
pub mod RuleWords
