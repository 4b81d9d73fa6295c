-- Lemmas that the proofs of this crate share.
pub mod Files
pub mod Images
pub mod Steps
pub mod ToldLemmas
pub mod Settled
pub mod Heads
pub mod ReadLemmas
pub mod FoundLemmas
pub mod GivenLemmas
pub mod LawLemmas
pub mod DamageLemmas
