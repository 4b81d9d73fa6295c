pub mod Rule
pub mod Plays
pub mod Calls
pub mod Pinning
pub mod Publishing
pub mod Lending
pub mod Counted
