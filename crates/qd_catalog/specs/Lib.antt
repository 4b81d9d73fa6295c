pub mod Versions
pub mod Laws
pub mod Tracked
pub mod Inside
