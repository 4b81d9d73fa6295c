-- Lemmas that the proofs of this crate share.
pub mod Records
pub mod GivenLemmas
pub mod Images
pub mod Steps
pub mod ToldLemmas
pub mod LawLemmas
pub mod ReadLemmas
pub mod PieceLemmas
pub mod ToldReads
pub mod OpenLemmas
pub mod ListReads
