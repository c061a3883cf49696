pub mod ImpossibleCommand
pub mod Private
pub mod Verdict
