pub mod CoefficientTables
pub mod Entry
pub mod MacroblockTables
pub mod Private
pub mod TableName
