pub mod Added
pub mod Beside
pub mod Best
pub mod BestAddition
pub mod BestWindow
pub mod Between
pub mod FirstBest
mod Ordered
pub mod Rises
pub mod Steps
