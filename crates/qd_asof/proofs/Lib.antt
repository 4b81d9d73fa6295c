pub mod LawLemmas
pub mod TimeLemmas
pub mod ChoiceLemmas
pub mod SideLemmas
pub mod JoinLemmas
