pub mod Private
pub mod SizedPicture
pub mod Versions
