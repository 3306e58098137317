-- The theorem about runs and what it is made of: Served a sheet and what a run holds of it, Runs the theorem, NoTwo that a good sheet stays good,
-- Joined the sheet after the events joined, Carried where its heads' numbers come from, Cuts the cut of tapes in a list of calls, Lowerings the same with
-- lowerings alone between the pieces, Again that calls may be cut again,
-- Choices order 3 in runs, Accepted a run that refuses
-- nothing, Handled and Notes order 14, Reduced order 6, Written order 8. Claims is the top file.
pub mod Served
pub mod Runs
pub mod NoTwo
pub mod Joined
pub mod Converted
pub mod Carried
pub mod Cuts
pub mod Lowerings
pub mod Again
pub mod Choices
pub mod Accepted
pub mod Both
pub mod Handled
pub mod Notes
pub mod Cleared
pub mod Stored
pub mod Named
pub mod Given
pub mod Written
pub mod Reduced
pub mod Claims
