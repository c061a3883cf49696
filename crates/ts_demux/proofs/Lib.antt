pub mod Passing
pub mod PassSteps
pub mod PlaceSteps
pub mod MapSteps
pub mod PayloadLemmas
mod PidTests
pub mod ReadCases
pub mod Readings
pub mod SectionLemmas
pub mod TableLemmas
pub mod TableSteps
pub mod WalkSteps
mod KnownPid
pub mod CarrySteps
pub mod CarriedSteps
pub mod DistinctPids
pub mod DemuxSteps
pub mod CarriedMapSteps
pub mod Gathering
pub mod GatherSteps
pub mod OneStop
pub mod OneAnswer
pub mod SomeAnswer
mod Examples
