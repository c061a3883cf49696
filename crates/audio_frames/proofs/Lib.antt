pub mod Appended
pub mod Certain
pub mod Chains
pub mod Elements
mod Examples
pub mod Following
pub mod Formats
pub mod Given
pub mod Places
pub mod Rests
pub mod Stepping
pub mod Tables
pub mod Clocks
pub mod Timed
