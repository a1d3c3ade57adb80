pub mod Paths
pub mod Visits
pub mod Visiting
