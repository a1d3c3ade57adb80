pub mod Same
pub mod Takes
pub mod Starts
pub mod Ends
