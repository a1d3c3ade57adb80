pub mod Told
pub mod Clients
pub mod Runs
pub mod Ends
