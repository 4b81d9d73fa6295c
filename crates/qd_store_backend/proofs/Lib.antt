-- Lemmas that the proofs of this crate share.
pub mod Shown
pub mod KeptLemmas
pub mod Leaving
pub mod Told
pub mod Commits
pub mod Turns
pub mod Begun
pub mod LineCodes
pub mod Handled
pub mod Asked
pub mod Applied
pub mod ToldOf
pub mod Started
pub mod Keeping
pub mod Going
