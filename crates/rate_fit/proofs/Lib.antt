pub mod Shorter
pub mod OneVerdict
pub mod GreatestSaid
pub mod Slots
mod Examples
