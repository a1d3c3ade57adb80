-- Mutexes, semaphores, reader-writer locks and segments: who holds them.
pub mod Exclusion
pub mod Locks
pub mod Rwls
pub mod RwlSteps
pub mod Mutexes
pub mod MutexSteps
pub mod Exclusive
pub mod Attached
