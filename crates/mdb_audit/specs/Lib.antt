pub mod AuditRuns
pub mod LegalText
pub mod LineTaking
