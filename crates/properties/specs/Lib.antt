pub mod Names
pub mod Lines
pub mod Rulings
pub mod Ranges
pub mod Reading
pub mod Inner
