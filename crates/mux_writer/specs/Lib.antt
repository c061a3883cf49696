pub mod Causes
pub mod Layout
pub mod Output
pub mod Pieces
pub mod Private
pub mod Tables
pub mod Writing
