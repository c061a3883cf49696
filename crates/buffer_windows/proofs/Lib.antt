pub mod AudioBefore
mod BuffersFrom
mod Counted
pub mod Duality
pub mod Examples
mod FreeBetween
mod Fronts
pub mod Held
mod LastDue
mod NearWindows
mod NoWindow
mod OwnedCosts
pub mod Parts
pub mod PlainCosts
pub mod PlainRooms
pub mod PlainValues
pub mod Rows
pub mod Tail
pub mod VersionsFit
pub mod Weights
pub mod WindowLaw
