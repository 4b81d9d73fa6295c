-- Lemmas that the proofs of this crate share.
pub mod Steps
pub mod Older
pub mod Within
pub mod Stopping
pub mod Opening
pub mod Clauses
