pub mod Answers
pub mod Cover
