pub mod Checked
pub mod Faults
pub mod Private
pub mod Shown
pub mod Walk
