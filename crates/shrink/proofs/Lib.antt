pub mod Orders
pub mod Parts
pub mod Asking
pub mod Counting
pub mod LinesOut
pub mod LinesIn
pub mod Ending
