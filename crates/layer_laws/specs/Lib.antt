pub mod Counted
pub mod PesPieces
pub mod VideoPackets
pub mod WholeUnits
