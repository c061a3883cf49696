pub mod CarriedLemmas
pub mod Elements
mod Examples
pub mod FileLemmas
pub mod Writing
pub mod WrittenFields
pub mod WrittenPackets
pub mod Refusals
