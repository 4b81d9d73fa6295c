pub mod ListLemmas
mod TextLemmas
pub mod SymbolLemmas
mod ColumnLemmas
pub mod RunLemmas
