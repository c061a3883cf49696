pub mod OwnCodes
pub mod WholeVersions
