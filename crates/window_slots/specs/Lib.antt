pub mod LongestSlot
