pub mod GenCommand
pub mod Report
