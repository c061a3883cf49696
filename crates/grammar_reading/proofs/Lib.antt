pub mod BitsRead
pub mod Cuts
pub mod ReadElements
pub mod Fronts
pub mod Several
