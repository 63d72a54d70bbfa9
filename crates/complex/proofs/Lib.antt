pub mod Progress
pub mod Spent
pub mod Ignored
