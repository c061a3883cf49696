pub mod Packets
pub mod Audio
pub mod NearTimes
pub mod Taken
pub mod Private
