pub mod Names
pub mod Complete
pub mod Counting
pub mod Ends
pub mod Keeps
pub mod OnePart
pub mod Opens
pub mod Shares
