-- What private functions of the crate stand on.
pub mod Needs
pub mod Scan
