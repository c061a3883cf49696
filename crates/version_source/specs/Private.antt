pub mod Kept
pub mod Made
pub mod OneVersions
pub mod Place
pub mod Sending
pub mod SourceFields
