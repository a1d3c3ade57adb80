mod Names
pub mod HandleLemmas
pub mod RunLemmas
pub mod LinkedLemmas
pub mod BesideLemmas
pub mod NextLemmas
