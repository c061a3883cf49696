pub mod Bounds
pub mod Fixed
pub mod Packets
pub mod Private
pub mod Room
pub mod Values
