-- What private functions of the crate stand on.
pub mod Prepared
pub mod StreamFile
