mod Names
pub mod Lists
pub mod Goes
pub mod Executes
pub mod Rooms
pub mod Creates
pub mod EachKind
pub mod Ends
pub mod Ended
pub mod Makes
pub mod Begins
pub mod Prefixes
pub mod Told
pub mod Shorts
