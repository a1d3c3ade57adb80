pub mod WordLemmas
pub mod LevelLemmas
pub mod MarkLemmas
