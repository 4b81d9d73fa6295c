pub mod CellLemmas
pub mod ListLemmas
pub mod RunLemmas
pub mod FilterLemmas
pub mod IdLemmas
pub mod LiteralLemmas
pub mod NumberLemmas
