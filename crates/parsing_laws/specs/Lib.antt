pub mod Parsed
pub mod TakenOut
