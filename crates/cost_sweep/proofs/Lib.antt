pub mod Holding
pub mod Priced
pub mod Prices
pub mod Swept
mod Over
