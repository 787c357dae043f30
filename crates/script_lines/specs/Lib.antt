pub mod Commands
pub mod Batches
pub mod ScriptLines
pub mod Written
pub mod Asked
pub mod Texts
