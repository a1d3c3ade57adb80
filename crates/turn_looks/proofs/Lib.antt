pub mod Names
pub mod OwnEntries
pub mod LookLemmas
