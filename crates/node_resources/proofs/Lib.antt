mod Names
pub mod HoldsLemmas
pub mod RowLemmas
pub mod KindSteps
pub mod TallyLemmas
pub mod RefusalLemmas
