pub mod Columns
pub mod Decoding
pub mod Encoding
pub mod Numbers
pub mod Reading
