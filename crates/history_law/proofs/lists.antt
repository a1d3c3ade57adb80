-- Lists of objects: what is listed, found and counted, after each change.
pub mod Found
pub mod Handles
pub mod Every
pub mod Members
pub mod Objects
pub mod Counts
pub mod Firsts
pub mod Sums
pub mod Records
pub mod Slots
pub mod AtHandles
pub mod KindNumbers
