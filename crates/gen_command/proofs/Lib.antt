mod Made
pub mod OneStatus
