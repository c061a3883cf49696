pub mod Choice
pub mod Limits
pub mod Lines
pub mod Order
pub mod Private
pub mod Table
pub mod Text
