pub mod Slots
pub mod Submissions
pub mod Completions
pub mod Queues
pub mod Tables
pub mod Used
