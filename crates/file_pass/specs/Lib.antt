pub mod FilePass
