pub mod AuditEnding
pub mod LegalTexts
pub mod OneVerdict
pub mod Texts
