pub mod Spelling
pub mod Rules
pub mod Layout
pub mod Reading
pub mod Writing
pub mod Laws
