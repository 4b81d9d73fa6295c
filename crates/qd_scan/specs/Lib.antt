pub mod Sources
pub mod Scans
pub mod Asked
