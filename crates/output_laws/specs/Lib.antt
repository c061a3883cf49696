pub mod Fields
pub mod SentItems
pub mod SentOn
