pub mod KeyLemmas
pub mod SymbolLemmas
pub mod SymbolRows
