pub mod Divisors
pub mod Numbers
pub mod Shorts
