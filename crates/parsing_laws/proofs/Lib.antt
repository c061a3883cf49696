mod CarriedStreams
mod Examples
mod MapReading
pub mod OutputTables
pub mod ProgramParts
mod SectionReading
pub mod SlotsBegin
