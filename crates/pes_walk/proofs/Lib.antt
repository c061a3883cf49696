pub mod Data
pub mod Examples
pub mod Fronts
pub mod Headers
pub mod Walking
