pub mod Parts
pub mod Reading
pub mod Types
pub mod WordRule
pub mod ErrorParts
