pub mod Names
mod Replays
mod BoxLemmas
mod Relisted
mod RingLemmas
mod PostSteps
pub mod Histories
mod PostStands
pub mod CallAnswers
mod FifoLemmas
