-- The definitions that the contracts of this crate cite.
pub mod Calls
pub mod Contents
pub mod Crash
pub mod Disk
pub mod Files
pub mod Fuse
pub mod Heap
pub mod Memory
pub mod Notes
