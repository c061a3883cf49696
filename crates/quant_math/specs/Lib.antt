pub mod Levels
pub mod Matrices
pub mod Scales
pub mod Scans
