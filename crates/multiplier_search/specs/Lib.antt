pub mod Buffered
pub mod Private
pub mod Single
pub mod Turns
pub mod Windows
