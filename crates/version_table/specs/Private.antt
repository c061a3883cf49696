pub mod Choices
pub mod Draft
pub mod Reader
pub mod Reading
