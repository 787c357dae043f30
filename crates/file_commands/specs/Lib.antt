pub mod Texts
pub mod Wrong
pub mod Observing
pub mod ToldText
pub mod Refuting
pub mod SlotObjects
pub mod Reasons
