pub mod Grown
pub mod Calls
pub mod Words
pub mod Texts
