pub mod Calls
pub mod Claimants
pub mod Fakes
pub mod Hosts
