pub mod Private
pub mod SliceBytes
pub mod VbvDelay
pub mod WrittenPicture
