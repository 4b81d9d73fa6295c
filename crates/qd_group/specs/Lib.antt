pub mod Keys
pub mod Laws
pub mod Grouping
pub mod Tallies
pub mod Tallied
pub mod Numbering
pub mod Kept
