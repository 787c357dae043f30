pub mod Beginning
pub mod Answering
mod Collected
mod Configurations
mod KindsLemmas
mod FirstLine
mod Followed
mod Checked
mod Continuing
pub mod Placing
mod Printed
mod MadeAgain
mod Settling
mod Stepping
pub mod Reaching
mod Witnessed
mod TraceWritten
