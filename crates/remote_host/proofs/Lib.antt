pub mod Laters
pub mod InFlight
pub mod GivenUp
pub mod Keeping
pub mod AtOnce
