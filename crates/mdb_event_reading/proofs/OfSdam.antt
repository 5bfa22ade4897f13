pub mod WordLemmas
pub mod SdamLemmas
pub mod EventTexts
