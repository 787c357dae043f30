pub mod Kept
pub mod Pairs
pub mod Granted
pub mod Rising
pub mod Orders
pub mod Windows
pub mod BothOrders
pub mod Putting
