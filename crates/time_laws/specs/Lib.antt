pub mod Audio
pub mod Carried
pub mod Clock
pub mod Video
