pub mod TokenLemmas
pub mod Pieces
pub mod Lengths
