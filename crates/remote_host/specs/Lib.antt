pub mod Events
pub mod Queues
pub mod HostStates
pub mod RemoteStates
pub mod Calls
pub mod Hosts
pub mod Remotes
