pub mod Blocks
pub mod Columns
pub mod Items
pub mod Lines
pub mod Numbers
pub mod Spans
pub mod Table
