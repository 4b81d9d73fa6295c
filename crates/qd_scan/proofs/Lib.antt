pub mod TimeLemmas
pub mod RowLemmas
pub mod SetLemmas
pub mod PartLemmas
pub mod ScanLemmas
pub mod AskedLemmas
