pub mod CutState
pub mod Groups
