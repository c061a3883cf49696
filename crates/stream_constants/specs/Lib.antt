pub mod SliceCodes
