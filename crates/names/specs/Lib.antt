-- The definitions of the crate `names`, those below before those above. The head of each file says what it holds.
pub mod Cases
pub mod Names
pub mod Plain
pub mod Answers
pub mod Scans
pub mod Unfold
pub mod Short
pub mod Begun
pub mod Same
