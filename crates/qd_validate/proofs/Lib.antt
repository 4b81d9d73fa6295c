pub mod ListLemmas
pub mod SoughtLemmas
pub mod CellLemmas
pub mod SumLemmas
pub mod FollowLemmas
