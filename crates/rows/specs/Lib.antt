-- The definitions of the crate `rows`, those below before those above. The head of each file says what it holds.
pub mod Ten
pub mod Numbers
pub mod Lengths
pub mod Texts
pub mod Packing
pub mod Writer
pub mod Append
pub mod Answers
pub mod Scan
pub mod Table
pub mod Count
