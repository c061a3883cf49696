pub mod CalmShelf
pub mod CountSink
pub mod Counted
pub mod MemShelf
pub mod MemSink
pub mod ShortShelf
pub mod Private
