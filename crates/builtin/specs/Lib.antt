-- The definitions of the crate `builtin`: Builtin is the list and its meaning, Answers what the code's enum says in those terms, Source the list of before order
-- 9, for one claim. Examples fixes the sequence of the list.
pub mod Builtin
pub mod Answers
pub mod Source
pub mod Unfold
mod Examples
