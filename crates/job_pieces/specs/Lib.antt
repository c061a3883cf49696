pub mod Appended
pub mod JobLanes
pub mod Private
