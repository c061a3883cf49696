pub mod PassedStream
pub mod PassedElements
pub mod StreamWalk
pub mod Private
