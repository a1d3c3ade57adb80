pub mod Mending
pub mod Told
pub mod Page
pub mod Ends
pub mod Worked
