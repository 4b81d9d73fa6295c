pub mod Desks
pub mod Passes
pub mod Commits
pub mod Holding
pub mod Snaps
pub mod Publishing
pub mod Rounds
