pub mod Passed
pub mod Demuxed
pub mod Streams
pub mod Elements
pub mod Split
