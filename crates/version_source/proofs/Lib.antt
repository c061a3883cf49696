mod AllVersions
mod Cuts
mod Examples
pub mod Items
mod KeptLemmas
mod MadeLemmas
pub mod PacketLemmas
mod PlaceLemmas
mod ReadPrograms
mod SourceLemmas
pub mod StateLemmas
pub mod VersionBytes
