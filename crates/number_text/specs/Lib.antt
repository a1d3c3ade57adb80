pub mod Numbers
pub mod Lists
pub mod Cores
pub mod Worked
