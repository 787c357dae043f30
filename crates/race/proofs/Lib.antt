pub mod JudgingRaces
pub mod Ended
pub mod Returned
pub mod Callers
pub mod Each
pub mod Freeing
pub mod Judged
pub mod Telling
pub mod Waiting
mod Feeds
mod ReadBack
mod TextTelling
