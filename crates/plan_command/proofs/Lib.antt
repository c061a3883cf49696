pub mod Held
pub mod OneStatus
mod Searches
mod Seen
