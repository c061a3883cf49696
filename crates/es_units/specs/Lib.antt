pub mod StartCodes
pub mod Units
pub mod Pictures
pub mod CutUpTo
pub mod UnitCutter
pub mod PictureFinder
pub mod Private
