pub mod BlockFault
pub mod Private
