pub mod Splitting
pub mod Standing
pub mod Passing
pub mod Demuxed
pub mod ElementSteps
pub mod Split
