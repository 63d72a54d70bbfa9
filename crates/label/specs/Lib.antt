pub mod Lines
pub mod Numbers
pub mod Said
pub mod Table
pub mod Taken
pub mod Utf8
