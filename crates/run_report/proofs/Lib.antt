mod Names
pub mod Listed
pub mod Sound
pub mod Follow
pub mod Rows
pub mod History
pub mod NamedEnds
pub mod LiveActions
pub mod EndLoop
pub mod Zips
pub mod Seats
pub mod Parts
pub mod Computed
mod TotalSteps
mod Summaries
pub mod RunReplies
