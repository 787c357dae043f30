mod Moving
mod Refused
mod Batches
mod Cutting
pub mod Discipline
mod Judging
mod Knowing
mod NewTakeovers
mod Publishing
mod Standing
mod TakingOver
mod Updated
