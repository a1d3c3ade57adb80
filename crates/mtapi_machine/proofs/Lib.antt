mod Names
pub mod Changes
pub mod Made
pub mod Moves
pub mod Lists
pub mod Refusals
pub mod Answered
pub mod Drops
pub mod Ends
pub mod Served
pub mod StartOrder
pub mod Replays
pub mod Lines
pub mod Worked
pub mod Alone
pub mod EachKind
pub mod Derived
pub mod Equal
