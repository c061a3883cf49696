pub mod Private
pub mod RunCommand
pub mod Written
