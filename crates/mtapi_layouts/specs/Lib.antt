pub mod Inward
pub mod Turned
pub mod Named
pub mod Ops
pub mod Turns
