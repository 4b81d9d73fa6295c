-- Lemmas that the proofs of this crate share.
pub mod Ranges
pub mod Decimals
pub mod Lines
pub mod Batches
pub mod Inputs
pub mod Framing
mod QuietLemmas
