-- Tallies: what they hold and what they add up to.
pub mod Ties
pub mod TallyMoves
pub mod Tallies
pub mod TallySteps
pub mod WorkedSum
pub mod Attends
