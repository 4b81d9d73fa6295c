mod WordLemmas
mod FieldLemmas
mod SymbolLemmas
mod TextLemmas
mod SpellingLemmas
mod ColumnLemmas
mod DamageLemmas
mod LawLemmas
mod PlaceLemmas
mod DictionaryLemmas
mod ReadLemmas
mod BlockLemmas
pub mod TailLemmas
mod RestLemmas
mod StoredTails
