pub mod Private
pub mod ProbeCommand
pub mod Report
