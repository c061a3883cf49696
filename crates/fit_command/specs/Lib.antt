pub mod FitCommand
pub mod ListText
pub mod Private
pub mod Report
