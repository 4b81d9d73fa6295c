-- The definitions that the contracts of this crate cite.
pub mod Backs
pub mod Kept
pub mod Rounds
pub mod Replies
pub mod Volumes
