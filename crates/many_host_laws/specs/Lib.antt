pub mod Rosters
pub mod Hosts
pub mod Closing
