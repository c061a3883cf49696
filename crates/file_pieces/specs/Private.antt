-- What private functions of the crate stand on.
pub mod Calls
pub mod OneVersions
