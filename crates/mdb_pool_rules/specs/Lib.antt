pub mod Answer
pub mod Available
pub mod Facts
pub mod Jobs
pub mod Quiet
pub mod Refusal
pub mod Rested
pub mod Serving
