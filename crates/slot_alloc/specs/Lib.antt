pub mod Areas
pub mod SlotRules
pub mod Claims
pub mod Counts
pub mod Progresses
pub mod Releases
