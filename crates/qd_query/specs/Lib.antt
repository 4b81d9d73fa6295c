pub mod Answers
pub mod Counted
pub mod Intervals
pub mod Needs
pub mod Times
pub mod Typed
