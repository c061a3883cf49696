pub mod Arrivals
pub mod Mb
pub mod Removals
pub mod Sections
pub mod Clean
