-- The definitions that the contracts of this crate cite.
pub mod Stores
pub mod Kept
pub mod Faults
pub mod Publishing
pub mod Tails
pub mod Writing
pub mod Calls
pub mod Opening
pub mod Reading
pub mod Laws
