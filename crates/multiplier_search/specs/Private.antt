pub mod Additions
pub mod Lambda
pub mod Lengths
pub mod UnitSteps
pub mod Turns
