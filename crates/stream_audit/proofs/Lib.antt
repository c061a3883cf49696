pub mod ArrivalLaws
pub mod BusyLaws
pub mod ClockLaws
pub mod Judging
pub mod PacketLaws
pub mod PartSteps
pub mod PlaceSteps
pub mod RemovalLaws
mod Examples
pub mod BusyWatching
pub mod StreamWatching
pub mod SystemLaws
pub mod SectionSteps
pub mod ArrivalSteps
pub mod FrameLaws
pub mod AudioLaws
pub mod AudioFacts
pub mod VideoFacts
pub mod AuditLaws
mod OneFinding
pub mod OneAudit
