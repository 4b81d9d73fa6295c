pub mod Counting
pub mod Making
mod Turned
mod Visiting
mod Accepted
