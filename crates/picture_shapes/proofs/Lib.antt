pub mod OneColumn
