pub mod Growth
pub mod Row
pub mod Legal
pub mod Replay
