-- What the parts of an act do to what is kept: the business of this crate alone.
pub mod Changes
pub mod Doing
pub mod Ended
