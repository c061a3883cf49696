pub mod PassesAudit
