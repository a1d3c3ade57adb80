pub mod Words
pub mod Headline
pub mod Command
pub mod Settled
pub mod Check
pub mod Ended
pub mod PartEnds
pub mod Worked
