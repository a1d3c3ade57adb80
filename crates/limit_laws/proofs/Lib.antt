mod Failures
mod NoRoom
pub mod TaskLimit
