pub mod Visits
pub mod Connections
pub mod Accounts
pub mod Making
pub mod Serving
