pub mod TwoPids
