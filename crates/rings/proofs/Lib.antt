pub mod Counts
pub mod Queues
pub mod Rotation
pub mod Tables
pub mod Beginnings
pub mod Positions
pub mod CidCounts
