pub mod Arrivals
pub mod Clean
