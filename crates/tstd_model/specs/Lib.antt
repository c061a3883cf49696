pub mod Private
pub mod Instants
pub mod PacketBytes
pub mod Decoder
pub mod Faults
pub mod Keeping
pub mod Wanted
pub mod Watch
