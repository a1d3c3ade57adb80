mod Names
pub mod CoverLemmas
pub mod ListedLemmas
