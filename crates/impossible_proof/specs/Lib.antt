pub mod NoRoom
pub mod Private
