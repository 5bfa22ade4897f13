pub mod Pieces
pub mod Replies
pub mod Facts
pub mod FactForms
pub mod Shows
pub mod OfLog
pub mod Answers
