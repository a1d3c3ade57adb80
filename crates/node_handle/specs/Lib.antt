pub mod Turns
pub mod Owning
pub mod Handles
pub mod Texts
