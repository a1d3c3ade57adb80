mod Names
pub mod ListReads
mod FreshLemmas
mod PlaceLemmas
mod RowSteps
pub mod LiveLemmas
pub mod ListedLemmas
pub mod StandsLemmas
pub mod CallsLemmas
pub mod WalkLemmas
pub mod GetLemmas
pub mod AnswerLemmas
pub mod OneEachLemmas
pub mod CountLemmas
pub mod KeyLemmas
pub mod InsideLemmas
