pub mod Rates
pub mod Ends
mod Examples
