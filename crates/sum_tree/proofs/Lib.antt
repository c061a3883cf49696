mod Down
pub mod Growing
pub mod Powers
pub mod Sums
pub mod Zeros
