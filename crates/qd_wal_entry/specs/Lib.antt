pub mod Spelling
pub mod Cursor
pub mod Layout
pub mod Reading
pub mod Writing
pub mod Written
pub mod Laws
