pub mod Keys
pub mod Symbols
