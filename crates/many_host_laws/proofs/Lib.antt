pub mod Rosters
pub mod Hosts
pub mod TwoHosts
pub mod GoingOn
pub mod Rostering
