pub mod Known
pub mod Lines
pub mod Number
pub mod Digits
pub mod Data
pub mod Words
pub mod Unsent
