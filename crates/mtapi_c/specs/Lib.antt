pub mod Kinds
pub mod Replies
pub mod Asks
pub mod Settings
pub mod Answers
pub mod Worked
