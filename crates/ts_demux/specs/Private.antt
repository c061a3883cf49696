pub mod PayloadWalk
pub mod SectionReader
pub mod TableWalk
pub mod PesGatherer
pub mod StreamWalk
pub mod CarriedStreams
pub mod CarriedMap
