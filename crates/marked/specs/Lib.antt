pub mod Cases
pub mod Readings
