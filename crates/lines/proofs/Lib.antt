pub mod Table
pub mod Laws
pub mod Greatest
pub mod Turns
pub mod RunLaws
pub mod NextArms
pub mod Folds
pub mod ByTable
