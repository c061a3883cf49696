mod Calls
mod Certified
mod Missed
pub mod OneStatus
mod RunSteps
mod Streams
