pub mod Answers
pub mod Parts
pub mod WholeParts
pub mod Why
