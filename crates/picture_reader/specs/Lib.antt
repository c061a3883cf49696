pub mod Coverage
pub mod Picture
pub mod PictureFault
pub mod Private
pub mod Told
pub mod UnitCursor
