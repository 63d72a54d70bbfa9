pub mod Tests
pub mod Sets
pub mod Choices
pub mod Columns
