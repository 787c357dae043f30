pub mod Servers
pub mod Going
pub mod Systems
