pub mod Bits
pub mod Marks
pub mod Levels
pub mod Index
