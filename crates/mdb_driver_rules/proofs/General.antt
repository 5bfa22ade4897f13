-- Of truth values, lists and descriptions, whatever they are used for.
pub mod AddressesDiffer
pub mod FirstThatPasses
pub mod OneElement
pub mod OnePosition
pub mod Truth
