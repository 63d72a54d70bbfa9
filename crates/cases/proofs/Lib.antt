pub mod Digits
pub mod Fields
pub mod Filling
pub mod Laid
pub mod Pairs
pub mod Splits
