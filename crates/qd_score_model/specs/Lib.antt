pub mod Machine
pub mod Kept
pub mod Laws
pub mod Examples
