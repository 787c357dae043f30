pub mod Swaps
pub mod SlotRules
pub mod Calls
pub mod Counts
pub mod Hosts
