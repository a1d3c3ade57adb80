mod Names
pub mod Handles
pub mod Lists
pub mod Creates
pub mod Table
pub mod Histories
