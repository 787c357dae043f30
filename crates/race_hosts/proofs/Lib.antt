pub mod Going
pub mod Playing
pub mod Queues
