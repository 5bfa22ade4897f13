-- What says the same is answered the same.
pub mod State
pub mod KeptTheSame
pub mod StaysHome
pub mod FailureAfterClear
