pub mod Fit
pub mod Private
