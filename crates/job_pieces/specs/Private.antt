-- What private functions of the crate stand on.
pub mod Filled
pub mod Sending
