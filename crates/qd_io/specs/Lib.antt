-- The definitions that the contracts of this crate cite.
pub mod Clocks
pub mod Ends
pub mod Memory
