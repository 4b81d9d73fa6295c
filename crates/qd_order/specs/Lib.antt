pub mod Keys
pub mod Laws
pub mod Orders
pub mod Selected
pub mod Seen
pub mod Cuts
