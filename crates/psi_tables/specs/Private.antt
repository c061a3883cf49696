pub mod SectionFront
pub mod Streams
