pub mod Works
pub mod Accepting
