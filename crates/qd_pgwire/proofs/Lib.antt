-- Lemmas that the proofs of this crate share.
pub mod FindLemmas
pub mod ScriptLemmas
pub mod TurnLemmas
pub mod AppendLemmas
pub mod BackLemmas
