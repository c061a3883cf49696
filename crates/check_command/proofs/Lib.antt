mod Asked
mod Calls
pub mod CheckSteps
pub mod OneStatus
