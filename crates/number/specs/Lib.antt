-- The definitions of the crate `number`, those below before those above. The head of each file says what it holds.
pub mod Number
pub mod Answers
pub mod Unfold
pub mod Counts
pub mod Examples
