pub mod AdaptationField
pub mod Carried
pub mod LastPayload
pub mod Packet
pub mod PidReader
pub mod Private
pub mod TransportStream
