pub mod Observed
pub mod Found
