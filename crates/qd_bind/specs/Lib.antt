pub mod Seen
pub mod Steps
pub mod Listed
pub mod Joined
pub mod Apart
pub mod Scoped
pub mod Deep
pub mod Nests
