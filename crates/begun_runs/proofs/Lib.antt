mod Fronts
mod Next
mod Worked
mod GoesOn
mod WorkedAsks
pub mod Looks
pub mod Lasts
pub mod Deadlocks
pub mod Tests
