-- Lemmas that the proofs of this crate share.
pub mod BufferLemmas
pub mod DecimalLemmas
pub mod FrameLemmas
pub mod HeadLemmas
pub mod NumberLemmas
pub mod ScriptLemmas
pub mod StepLemmas
pub mod StepsLemmas
