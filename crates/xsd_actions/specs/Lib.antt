-- The definitions of the crate `xsd_actions`: Actions says what an action does, Decided which one the handlers take, Answers what a decision of the code says,
-- Examples some decisions by computation.
pub mod Actions
pub mod Decided
pub mod Answers
pub mod Unfold
pub mod Examples
