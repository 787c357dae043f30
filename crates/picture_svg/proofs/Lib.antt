pub mod Chains
pub mod GoingOn
pub mod Whole
pub mod Paged
