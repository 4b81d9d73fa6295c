pub mod Nested
pub mod Turns
