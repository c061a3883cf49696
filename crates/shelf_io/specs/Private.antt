-- What private functions and types of the crate stand on.
pub mod WholeFile
