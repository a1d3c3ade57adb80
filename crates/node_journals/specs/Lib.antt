pub mod Few
pub mod Journals
pub mod ShortCalls
pub mod Shorts
