pub mod Format
pub mod FrameHeader
pub mod Frames
pub mod Times
pub mod Walk
pub mod Private
