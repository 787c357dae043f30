pub mod Standing
pub mod Entries
pub mod Tasks
