-- The definitions that the contracts of this crate cite.
pub mod Marks
pub mod Prefixes
pub mod Found
pub mod Stores
pub mod Grown
pub mod Faults
pub mod Arriving
pub mod Calls
pub mod Drafts
pub mod Damage
pub mod Drafting
pub mod Merges
pub mod Reading
pub mod Opening
pub mod Owned
pub mod Laws
