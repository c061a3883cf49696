pub mod Parts
pub mod Private
