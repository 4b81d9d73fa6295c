-- The definitions that the contracts of this crate cite.
pub mod Hosts
pub mod Lent
pub mod Memory
pub mod Standard
