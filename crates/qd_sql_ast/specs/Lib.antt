pub mod Ranges
pub mod Steps
pub mod Lists
pub mod Writes
pub mod Kinds
pub mod Folds
pub mod Nesting
