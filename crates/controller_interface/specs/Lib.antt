pub mod Granted
pub mod State
pub mod Works
