pub mod Cells
pub mod Scalars
pub mod Value
pub mod Laws
