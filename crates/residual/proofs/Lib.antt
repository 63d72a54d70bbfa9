pub mod Residual
pub mod Steps
