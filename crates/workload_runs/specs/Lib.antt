pub mod Calls
pub mod Wants
pub mod Parts
pub mod Lines
pub mod RunOf
pub mod Turns
pub mod Whole
pub mod Worked
