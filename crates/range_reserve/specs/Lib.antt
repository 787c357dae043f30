pub use Rattle.nvme_model.specs.Array
pub use Rattle.nvme_model.specs.Open
pub use Rattle.nvme_model.specs.Operations
pub mod Reserved
pub mod Sorted
