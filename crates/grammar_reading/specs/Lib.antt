pub mod BitsRead
pub mod Cut
pub mod Private
pub mod Several
pub mod Symbol
pub mod Window
