mod RunLemmas
mod CommandLemmas
pub mod HostLemmas
mod PortLemmas
