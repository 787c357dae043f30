pub mod Bytes
pub mod Fuse
pub mod Sqe
pub mod Cqe
