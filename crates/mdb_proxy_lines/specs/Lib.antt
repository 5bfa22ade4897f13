pub mod ProxyLines
pub mod ProxyText
pub mod ProxyForms
