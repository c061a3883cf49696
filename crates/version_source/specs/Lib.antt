pub mod Pieces
pub mod Private
pub mod Sendable
pub mod Source
pub mod Versions
