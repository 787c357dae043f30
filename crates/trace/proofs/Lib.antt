pub mod Pointwise
pub mod Aside
pub mod Beginnings
pub mod SeenAgain
pub mod SeenRead
pub mod OptionsRead
