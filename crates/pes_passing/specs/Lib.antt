pub mod PassingPackets
pub mod ElementPackets
pub mod Private
