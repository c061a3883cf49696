pub mod Products
pub mod Signs
pub mod TableExamples
pub mod Tables
pub mod WorkedExamples
