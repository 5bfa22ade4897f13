-- What is done one after another: serving, ends, closes, walks.
pub mod Serve
pub mod CallsInOneStep
pub mod End
pub mod EndFacts
pub mod CloseMany
pub mod ExpireMany
pub mod MaintainMany
pub mod EndUnserved
pub mod CountUnserved
