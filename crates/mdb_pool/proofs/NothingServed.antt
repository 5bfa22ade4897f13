-- Where nobody is queued there is nothing to serve.
pub mod NobodyQueued
pub mod KeptByActs
