pub mod Takeovers
pub mod Polls
pub mod Holders
