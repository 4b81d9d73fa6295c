-- Lemmas that the proofs of this crate share.
pub mod CellLemmas
pub mod HandlesLemmas
pub mod HistoryLemmas
pub mod PutLemmas
pub mod MomentLemmas
pub mod FullLemmas
pub mod SlotLemmas
pub mod PieceLemmas
pub mod SourceLemmas
pub mod TableLemmas
pub mod MergingLemmas
pub mod ChangeLemmas
pub mod PassLemmas
pub mod WaitLemmas
