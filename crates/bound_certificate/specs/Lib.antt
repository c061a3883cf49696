pub mod Cert
pub mod Private
pub mod Reading
pub mod Spelling
