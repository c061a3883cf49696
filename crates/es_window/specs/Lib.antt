pub mod EsWindow
pub mod PassingBytes
pub mod ElementBytes
pub mod Private
