pub mod Going
pub mod WholeSlices
pub mod Writing
