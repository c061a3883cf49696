mod Examples
mod OwnPids
mod Rows
mod SentItems
mod TableSections
