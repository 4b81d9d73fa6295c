pub mod Segments
pub mod Puts
pub mod Reading
pub mod Laws
