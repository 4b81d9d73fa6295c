-- The definitions that the contracts of this crate cite.
pub mod Run
pub mod Stores
pub mod Ports
pub mod Status
pub mod Frames
