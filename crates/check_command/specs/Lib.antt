pub mod CheckCommand
pub mod Private
pub mod Verdict
