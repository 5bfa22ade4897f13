pub mod EndForms
pub mod EventTypes
pub mod EventForms
pub mod SdamTexts
pub mod SdamForms
pub mod OfEvents
