pub use Rattle.nvme_model.specs.Array
pub use Rattle.nvme_model.specs.Cells
pub use Rattle.nvme_model.specs.Config
pub use Rattle.nvme_model.specs.Cut
pub mod Numbers
pub mod Room
pub mod Tiles
