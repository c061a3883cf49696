-- What private functions of the crate stand on.
pub mod ListFaults
pub mod NextSlot
pub mod Judged
