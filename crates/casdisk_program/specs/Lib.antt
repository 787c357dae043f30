pub mod Racing
pub mod Kept
