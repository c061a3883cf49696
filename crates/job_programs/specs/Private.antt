-- What private functions of the crate stand on.
pub mod Alone
pub mod Behind
pub mod Next
pub mod Passed
pub mod ReadSoFar
pub mod Sized
