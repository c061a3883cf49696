pub mod Codes
pub mod CodesInOrder
mod Examples
pub mod HeadCodes
pub mod ProgramVersions
pub mod SliceCodes
pub mod SourceUnits
pub mod SpelledVersions
pub mod WholeVersions
