pub mod State
pub mod Rule
pub mod Shared
pub mod Cover
pub mod Emoji
pub mod Space
pub mod Inner
