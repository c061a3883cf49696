pub mod AudioLimits
pub mod AudioTimes
mod Examples
pub mod Rows
mod TableLimits
pub mod UnitLimits
mod SizedRows
mod PassedRows
