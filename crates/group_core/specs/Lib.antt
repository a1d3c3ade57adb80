pub mod Members
pub mod Worked
