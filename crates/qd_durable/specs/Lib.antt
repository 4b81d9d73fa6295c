-- The definitions that the contracts of this crate cite.
pub mod Places
pub mod Moments
pub mod Writing
pub mod Faults
pub mod Laws
