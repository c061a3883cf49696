mod Balanced
mod Examples
mod FirstWindow
mod Impossible
mod NeedLists
mod NeedOf
mod Rooms
mod Scanned
