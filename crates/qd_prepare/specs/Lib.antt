pub mod Prepared
pub mod Sunk
