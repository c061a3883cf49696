pub mod Places
pub mod Private
pub mod Sorted
pub mod Steps
pub mod Sweep
