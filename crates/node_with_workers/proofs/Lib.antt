pub mod Names
pub mod Calls
pub mod Told
pub mod Lemmas
