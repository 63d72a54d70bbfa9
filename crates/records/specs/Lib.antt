pub mod Sweep
pub mod Refusals
pub mod Numbers
pub mod Offences
pub mod Sound
pub mod Text
pub mod Written
pub mod Verdict
