pub mod Near
pub mod Prices
