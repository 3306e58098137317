-- The definitions of the crate `text`, those below before those above. The head of each file says what it holds.
pub mod Text
pub mod Leads
pub mod Characters
pub mod Utf8
pub mod Trim
pub mod Unfold
mod Examples
