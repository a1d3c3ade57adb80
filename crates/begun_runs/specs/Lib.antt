pub mod Begun
pub mod Asks
pub mod Halts
pub mod Complete
pub mod Worked
pub mod WorkedAsks
