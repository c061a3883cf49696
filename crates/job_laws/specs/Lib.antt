pub mod ParsesTo
