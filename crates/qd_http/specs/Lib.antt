-- The definitions that the contracts of this crate cite.
pub mod Heads
pub mod Fields
pub mod Targets
pub mod Json
pub mod Responses
pub mod Steps
pub mod Reading
