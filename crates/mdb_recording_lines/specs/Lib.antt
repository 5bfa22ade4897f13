pub mod EventNames
pub mod LineForms
pub mod Known
pub mod Numbers
pub mod ServerNames
