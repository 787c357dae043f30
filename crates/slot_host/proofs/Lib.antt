pub mod Places
mod Fresh
mod HoldsStaying
mod HostKeeping
mod HostBars
mod HostBeginning
mod HostReleasing
mod HostPolled
mod HostUntouched
