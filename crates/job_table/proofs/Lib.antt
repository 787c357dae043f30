pub mod Rising
mod Search
pub mod StageLemmas
pub mod Granted
pub mod Blocked
pub mod Posted
pub mod Fetched
pub mod Owes
pub mod Waits
pub mod TicketLookups
mod Noted
pub mod Tables
mod Slots
