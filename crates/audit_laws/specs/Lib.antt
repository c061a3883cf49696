pub mod Headers
pub mod Found
pub mod Carried
pub mod Kept
pub mod Written
