mod Apart
pub mod Exactly
