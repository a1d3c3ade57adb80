mod Names
pub mod GroupLemmas
