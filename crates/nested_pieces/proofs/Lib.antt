pub mod Kept
pub mod Works
pub mod Runs
pub mod WorkedRows
