pub mod Counted
pub mod Infallible
pub mod Numbers
pub mod OneFile
pub mod Started
pub mod Taken
pub mod Whole
pub mod Written
