pub mod SlotStates
pub mod Begins
pub mod HostPolls
pub mod SlotHosts
