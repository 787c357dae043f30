pub mod Marks
mod Again
mod Batches
mod LinesLooked
mod OwnEntries
mod PieceGiven
mod Ready
mod Replayed
mod HostSent
mod RemoteSent
mod RemoteLooked
mod Fresh
pub mod SlotSent
mod SeenTaken
mod SlotsFollowed
mod Settled
