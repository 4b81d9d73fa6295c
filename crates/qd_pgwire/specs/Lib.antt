-- The definitions that the contracts of this crate cite.
pub mod Messages
pub mod Replies
pub mod Steps
pub mod Reading
