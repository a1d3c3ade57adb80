pub mod Judged
pub mod Pages
pub mod Replays
