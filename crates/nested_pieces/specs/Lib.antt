pub mod Joins
pub mod Works
pub mod Runs
pub mod Worked
