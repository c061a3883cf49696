pub mod Auditable
mod AuditEnds
mod OneStatus
mod LastTimes
mod ReadLaws
