pub mod Names
pub mod Lines
pub mod Faults
pub mod Pages
pub mod Order
