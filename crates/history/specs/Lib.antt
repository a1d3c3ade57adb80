pub mod Histories
pub mod Row
pub mod Legal
pub mod Replay
