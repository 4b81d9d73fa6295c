pub mod Values
pub mod Longs
pub mod Orders
pub mod Truths
pub mod Chains
