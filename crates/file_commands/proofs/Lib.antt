mod Found
pub mod Wronging
pub mod Told
mod FirstTold
mod BothRead
