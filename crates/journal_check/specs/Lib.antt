pub mod Made
pub mod Follow
pub mod Laws
pub mod Verdicts
pub mod Judged
