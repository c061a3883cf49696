pub mod Brought
pub mod Cleanness
mod Examples
pub mod Headers
pub mod Numbers
pub mod Payloads
pub mod Pids
pub mod Places
pub mod Queued
pub mod SectionsBrought
pub mod Slots
pub mod Stream
