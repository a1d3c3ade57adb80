mod Names
pub mod Marks
pub mod Gives
pub mod Moves
pub mod Changes
pub mod PhaseSteps
pub mod ResourceSteps
pub mod ActionSteps
pub mod TaskSteps
pub mod StartSteps
pub mod WorkSteps
pub mod QueueLemmas
pub mod PickSteps
pub mod TowardSteps
pub mod InitSteps
mod KeepLemmas
pub mod StopSteps
pub mod ListedEnds
pub mod WaitingEnds
pub mod WithdrawSteps
pub mod QueueSteps
pub mod RefusedSteps
pub mod GroupLists
pub mod GroupSteps
pub mod NewHandles
pub mod SameOps
pub mod TallySteps
