pub mod Bound
pub mod Changes
pub mod Plan
pub mod Private
pub mod Tree
