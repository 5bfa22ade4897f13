pub mod Values
pub mod ReplyParts
pub mod Groups
