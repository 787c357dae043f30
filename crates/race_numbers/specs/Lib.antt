pub mod Biases
pub mod Races
