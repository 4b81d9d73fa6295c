-- Lemmas that the proofs of this crate share.
pub mod Below
pub mod LawLemmas
pub mod StayLemmas
