pub mod Average
pub mod Ended
pub mod Once
pub mod Since
pub mod Standing
pub mod Success
pub mod Times
pub mod Told
