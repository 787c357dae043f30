pub mod LittleLemmas
pub mod SqeLemmas
pub mod Phases
pub mod CqeLemmas
