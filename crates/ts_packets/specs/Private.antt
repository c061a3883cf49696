pub mod LastPayload
pub mod Packet
pub mod PidReader
