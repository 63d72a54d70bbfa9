pub mod Offsets
pub mod Utf8
pub mod Spans
pub mod Runs
pub mod Joined
pub mod Inner
