-- Lemmas that the proofs of this crate share.
pub mod FieldLemmas
pub mod LineLemmas
pub mod TextLemmas
pub mod AppendLemmas
pub mod EndLemmas
pub mod HeadLemmas
pub mod OrderLemmas
pub mod ReaderLemmas
pub mod TakenLemmas
pub mod DecideLemmas
pub mod SortLemmas
pub mod ScriptLemmas
pub mod LengthLemmas
pub mod TurnLemmas
pub mod EscapeLemmas
