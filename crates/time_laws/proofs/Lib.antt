pub mod Audios
pub mod Clocks
mod Examples
pub mod OneClock
pub mod Programs
pub mod Spelled
pub mod Tables
pub mod Ticks
pub mod Videos
pub mod WithoutDelay
