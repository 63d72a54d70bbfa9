pub mod Marked
pub mod Needed
