-- Lemmas that the proofs of this crate share.
pub mod Kept
pub mod Files
pub mod Growths
pub mod Steps
pub mod Blocks
pub mod Alike
pub mod Stores
pub mod KeptTails
pub mod OpenLemmas
pub mod ToldLemmas
pub mod StoreTold
pub mod Tails
