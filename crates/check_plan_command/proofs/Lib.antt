mod Asked
mod Judged
pub mod OneStatus
