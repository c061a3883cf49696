pub mod Private
pub mod SliceCursor
pub mod SliceFault
pub mod SliceHead
