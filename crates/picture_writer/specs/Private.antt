pub mod ExtraInformation
pub mod Scan
pub mod Slices
