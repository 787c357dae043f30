mod Opens
mod PieceLines
mod PieceKept
pub mod HostNumbers
pub mod Lives
pub mod Marks
pub mod Moving
pub mod Owned
pub mod Pointers
pub mod Queues
pub mod Sent
pub mod Works
