-- The definitions that the contracts of this crate cite.
pub mod Plain
pub mod Pieces
pub mod Words
pub mod Parts
