pub mod JobCalls
pub mod JobFile
pub mod JobTable
pub mod PassedJob
pub mod Private
pub mod Same
pub mod Stops
