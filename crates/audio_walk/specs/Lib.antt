pub mod AudioWalk
pub mod Private
