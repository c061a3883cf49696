pub mod PassedAudios
pub mod Passes
pub mod Faults
pub mod TakenVideo
