pub mod BitReader
pub mod BitWriter
pub mod Private
pub mod Shown
