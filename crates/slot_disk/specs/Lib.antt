pub mod Views
pub mod Asks
pub mod Moments
pub mod Hosts
pub mod Inside
