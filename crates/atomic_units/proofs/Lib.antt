pub mod Ends
pub mod Longest
pub mod Steps
pub mod Tiling
