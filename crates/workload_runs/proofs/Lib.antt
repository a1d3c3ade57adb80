pub mod Names
pub mod Shapes
pub mod Rows
pub mod TurnLists
pub mod Left
pub mod Forms
pub mod Joins
