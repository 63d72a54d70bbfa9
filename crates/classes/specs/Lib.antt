pub mod Category
pub mod ClusterBreak
pub mod Mode
pub mod MyanmarClass
pub mod Scalar
pub mod Shape
pub mod UseClass
pub mod WordBreak
