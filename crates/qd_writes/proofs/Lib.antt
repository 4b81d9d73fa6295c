mod MetLemmas
mod JudgeLemmas
mod PlaceLemmas
mod TableLemmas
mod CreateLawful
mod InsertLawful
pub mod AlterLawful
