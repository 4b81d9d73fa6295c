-- Lemmas that the proofs of this crate share.
pub mod Parting
pub mod Spelling
pub mod Lines
