-- Lemmas that the proofs of this crate share.
pub mod AloneLemmas
pub mod HandledLemmas
pub mod ProgressLemmas
pub mod RuleLemmas
pub mod RunLemmas
pub mod TrialLemmas
pub mod TurnLemmas
pub mod WireLemmas
