pub mod EventText
pub mod FactText
pub mod SdamText
pub mod Words
