pub mod Heads
pub mod Private
