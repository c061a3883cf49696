pub mod Asked
pub mod Ends
pub mod JobStopped
pub mod OneJob
pub mod OneStop
pub mod Steps
pub mod Texts
