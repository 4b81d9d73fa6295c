pub mod Cells
pub mod Symbols
pub mod Texts
pub mod Columns
pub mod Runs
