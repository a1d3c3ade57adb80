pub mod Holds
pub mod Steps
pub mod Replies
pub mod Tallies
pub mod Refusals
