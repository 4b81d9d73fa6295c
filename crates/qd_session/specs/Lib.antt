-- The definitions that the contracts of this crate cite.
pub mod Allowed
pub mod Alone
pub mod Asking
pub mod Legal
pub mod Looks
pub mod Session
pub mod Timing
pub mod Trials
pub mod Turns
