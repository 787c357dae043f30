pub mod Configs
pub mod Drawn
pub mod Kinds
pub mod Scripts
