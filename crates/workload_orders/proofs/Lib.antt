pub mod Pushed
mod Settled
pub mod Stuck
