pub mod Ends
pub mod Worked
