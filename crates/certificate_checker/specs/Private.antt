pub mod FixedCosts
pub mod Neighbours
pub mod Order
pub mod Paths
pub mod PlaceSums
pub mod Prices
pub mod Tallies
