-- The definitions that the contracts of this crate cite.
pub mod Generated
pub mod Stretches
pub mod Examples
pub mod Framed
pub mod Quieted
