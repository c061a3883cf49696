pub mod Private
pub mod Steps
