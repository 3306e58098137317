-- The definitions of the crate `columns`: Columns is order 10's two turnings, Call what the calls say of themselves, Filled what the loops say of what they
-- have written so far. Examples are by computation.
pub mod Columns
pub mod Call
pub mod Filled
pub mod Unfold
mod Examples
