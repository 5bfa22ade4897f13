pub mod Changes
pub mod Kept
pub mod Lists
pub mod Reading
pub mod Standing
pub mod Tables
pub mod Totals
pub mod Verdicts
