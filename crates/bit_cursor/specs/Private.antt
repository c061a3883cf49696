pub mod WaitingBits
