pub mod Progress
pub mod Batch
pub mod Broken
pub mod Names
pub mod Takeovers
pub mod Watched
