pub mod Fault
pub mod Place
pub mod Programs
pub mod Value
