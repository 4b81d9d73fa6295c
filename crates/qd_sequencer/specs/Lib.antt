-- The definitions that the contracts of this crate cite.
pub mod Histories
pub mod Faults
pub mod Sequences
pub mod Reading
pub mod Calls
pub mod Laws
