pub mod Private
pub mod Stream
