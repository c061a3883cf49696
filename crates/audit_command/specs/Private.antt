-- What private functions of the crate stand on.
pub mod Audited
