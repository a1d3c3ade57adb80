pub mod TaskLimit
pub mod Worked
