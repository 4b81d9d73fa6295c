pub mod Lasts
pub mod Laws
pub mod Chains
pub mod Walks
