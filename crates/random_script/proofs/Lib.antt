pub mod Drawn
pub mod Names
