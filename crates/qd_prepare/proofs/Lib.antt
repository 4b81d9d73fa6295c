pub mod SinkLemmas
pub mod EntryLemmas
pub mod CellLemmas
pub mod LeftLemmas
pub mod EmptyLemmas
