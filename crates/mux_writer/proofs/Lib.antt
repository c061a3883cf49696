pub mod Examples
mod SectionExamples
pub mod Pids
pub mod Sections
pub mod Counting
pub mod Fronts
pub mod Told
pub mod Layouts
pub mod Writing
pub mod Written
