pub mod OpenPacket
pub mod ElementWalk
