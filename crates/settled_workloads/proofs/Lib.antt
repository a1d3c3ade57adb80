pub mod Actions
pub mod Loops
