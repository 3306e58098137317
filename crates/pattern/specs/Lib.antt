-- The definitions of the crate `pattern`. The head of each file says what it holds.
pub mod Grammar
pub mod Scan
pub mod Answers
pub mod Call
pub mod Unfold
pub mod Examples
