pub mod CodesAtSeams
pub mod CountedPackets
mod Examples
mod LayerExamples
mod PesHeaders
mod PesPieces
pub mod Sections
mod UnitCuts
