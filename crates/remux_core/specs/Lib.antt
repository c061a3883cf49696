pub mod Outcome
pub mod Private
pub mod Promises
pub mod Tasks
