pub mod Names
pub mod Formed
mod Lines
mod Heads
mod Starts
mod Read
