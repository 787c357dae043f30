pub mod Lists
pub mod Options
pub mod Bools
pub mod Numbers
