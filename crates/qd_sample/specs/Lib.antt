pub mod Starts
pub mod Cells
pub mod Sampling
pub mod Laws
