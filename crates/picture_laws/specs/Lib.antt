pub mod SliceStands
pub mod Spellable
