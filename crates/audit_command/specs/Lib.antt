pub mod AuditCommand
pub mod Private
