pub mod Names
pub mod Keeps
pub mod Stands
pub mod Picks
pub mod Sound
pub mod Tallies
pub mod Refusals
