pub mod Options
pub mod Aside
pub mod Observed
pub mod SeenLines
pub mod OptionLines
