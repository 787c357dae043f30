pub mod Servers
pub mod Callers
pub mod Capacities
pub mod Plain
