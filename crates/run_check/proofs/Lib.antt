mod Names
pub mod Owns
pub mod Stated
pub mod Fronts
pub mod Same
pub mod Reached
pub mod Ran
pub mod Ended
pub mod Several
