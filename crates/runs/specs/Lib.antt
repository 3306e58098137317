-- The definitions of the crate `runs`: Runs is the definition of a run, Trace a list of calls as they were made, Joined the events joined, Cuts the
-- same list cut elsewhere, Notes two runs alike but for notes, Cleared
-- calls and runs without the numbers of order 5, Examples runs by computation.
pub mod Runs
pub mod Trace
pub mod Joined
pub mod Cuts
pub mod Notes
pub mod Cleared
pub mod Given
pub mod Unfold
pub mod Examples
