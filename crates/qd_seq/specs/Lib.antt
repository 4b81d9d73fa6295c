-- The definitions that the contracts of this crate cite.
pub mod Layout
pub mod Damage
pub mod States
pub mod Calls
pub mod Reading
pub mod Opening
pub mod Laws
