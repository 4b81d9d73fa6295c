pub mod Moments
pub mod Held
pub mod Histories
pub mod EnterLemmas
pub mod WriterLemmas
pub mod SequenceLemmas
pub mod CommitLemmas
pub mod ReadLemmas
