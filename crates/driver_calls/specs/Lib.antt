pub mod Answers
pub mod Log
pub mod Events
pub mod Says
pub mod Views
pub mod Entries
