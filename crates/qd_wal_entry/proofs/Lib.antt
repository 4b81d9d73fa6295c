pub mod DictionaryLemmas
pub mod Places
pub mod Cells
pub mod Ops
pub mod Entries
pub mod DraftLemmas
mod WriterLemmas
