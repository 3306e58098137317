-- The definitions of the crate `ir_reduce`, those below before those above. The head of each file says what it holds.
pub mod Groups
pub mod Reach
pub mod Call
pub mod Twice
pub mod Marks
pub mod Places
pub mod Copy
pub mod Index
pub mod Steps
pub mod Parts
pub mod Queue
