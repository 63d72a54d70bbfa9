pub mod Masks
pub mod Refusals
pub mod Rows
pub mod Rules
pub mod Run
pub mod Step
pub mod Table
pub mod Next
