pub mod Lists
mod ExamplePolls
mod ExampleRounds
