pub mod Delay
pub mod Examples
pub mod Finished
pub mod HeaderFront
pub mod PictureCodes
pub mod PictureHeader
pub mod Writable
