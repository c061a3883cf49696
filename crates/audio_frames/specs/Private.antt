pub mod Ahead
pub mod Followed
pub mod Format
pub mod Packets
pub mod Places
pub mod Sought
pub mod Steps
