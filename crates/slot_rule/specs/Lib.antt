pub mod Buffers
pub mod Private
pub mod Queues
pub mod Schedule
pub mod Sent
pub mod SlotList
pub mod SlotRun
pub mod Timetable
