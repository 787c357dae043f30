pub mod Texts
pub mod Names
pub mod Completions
pub mod Commands
pub mod Told
pub mod BesideLines
