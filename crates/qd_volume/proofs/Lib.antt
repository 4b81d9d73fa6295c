-- Lemmas that the proofs of this crate share, and those of the crates above it.
pub mod Behind
pub mod Filled
pub mod Grown
pub mod Left
pub mod Moments
pub mod Sound
pub mod Told
pub mod Written
