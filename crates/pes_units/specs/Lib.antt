pub mod PesHeader
pub mod PesPackets
pub mod PesPieces
pub mod TimeAxis
pub mod Times
pub mod VideoHeader
pub mod Private
