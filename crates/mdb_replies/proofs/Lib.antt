pub mod ValueLemmas
pub mod ReplyLemmas
pub mod Handed
pub mod SameReplies
