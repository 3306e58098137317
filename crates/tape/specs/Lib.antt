-- The definitions of the crate `tape`, those below before those above. The head of each file says what it holds.
pub mod Pairs
pub mod Keys
pub mod Lookup
pub mod Marks
pub mod Answers
