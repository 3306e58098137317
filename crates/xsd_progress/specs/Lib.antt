-- The definitions of the crate `xsd_progress`, those below before those above. The head of each file says what it holds.
pub mod Answers
pub mod Modes
pub mod Change
pub mod Open
pub mod Progress
