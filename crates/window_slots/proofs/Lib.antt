mod Examples
mod Rooms
