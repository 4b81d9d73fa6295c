pub mod RowLemmas
pub mod BuildLemmas
pub mod OrderLemmas
mod MomentLemmas
pub mod BlockLemmas
mod FitLemmas
