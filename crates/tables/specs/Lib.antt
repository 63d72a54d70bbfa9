pub mod SimpleTable
pub mod MyanmarTable
pub mod ComplexTable
pub mod KhmerTable
pub mod Symbols
