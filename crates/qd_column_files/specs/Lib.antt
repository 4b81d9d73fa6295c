-- The definitions that the contracts of this crate cite.
pub mod Files
pub mod Calls
pub mod Columns
pub mod Damage
pub mod Reading
pub mod Laws
pub mod Growing
pub mod Rests
