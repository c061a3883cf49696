pub mod Fronts
pub mod Waiting
pub mod Walks
pub mod Steps
pub mod IdWalk
