pub mod CidsLemmas
mod Places
pub mod Ports
pub mod Following
pub mod Listening
pub mod Tables
pub mod Dropping
pub mod Drivers
pub mod Sending
pub mod Starting
pub mod Passing
pub mod Drawing
pub mod Overtaking
