-- The definitions that the contracts of this crate cite.
pub mod Arrivals
pub mod Stands
pub mod Next
pub mod Laws
pub mod Olds
pub mod Waiting
pub mod Given
pub mod Plans
pub mod Drafts
pub mod Examples
