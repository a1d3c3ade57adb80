pub mod Stands
pub mod Parts
pub mod Keeping
pub mod Logs
pub mod Worked
