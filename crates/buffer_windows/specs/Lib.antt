pub mod Bounds
pub mod Charged
pub mod Charges
pub mod Private
pub mod Room
pub mod Values
pub mod Windows
