pub mod Cut
pub mod DcStanding
pub mod Pairs
pub mod ShortCodes
pub mod Standing
pub mod Why
pub mod Writing
