mod Names
pub mod KeptLemmas
pub mod LogLemmas
pub mod TwoSeats
pub mod Outside
pub mod NodeLemmas
pub mod PartLemmas
