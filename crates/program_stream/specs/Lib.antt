pub mod Elements
pub mod Streams
pub mod Split
pub mod Forms
pub mod PassingElements
pub mod ElementStreams
pub mod Private
