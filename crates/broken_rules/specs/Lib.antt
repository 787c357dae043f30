pub mod Unlike
pub mod Rows
pub mod Broken
