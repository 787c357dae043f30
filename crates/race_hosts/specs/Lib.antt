pub mod Hosts
pub mod Playing
pub mod Stages
