pub mod Accepted
pub mod Effects
pub mod Laws
pub mod Masks
pub mod Refusals
pub mod Standing
