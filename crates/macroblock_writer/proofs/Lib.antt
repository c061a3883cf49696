pub mod Counts
pub mod Examples
pub mod Going
pub mod Groups
pub mod Parts
pub mod Writable
pub mod WritableSlices
pub mod Writing
