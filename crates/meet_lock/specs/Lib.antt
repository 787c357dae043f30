pub mod Lock
pub mod SeatSteps
pub mod MachineSteps
pub mod Passes
