pub mod HeadFault
pub mod HeadRead
pub mod Private
pub mod Runs
