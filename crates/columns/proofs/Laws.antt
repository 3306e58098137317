-- The laws of the crate `columns`, those below before those above. The head of each file says what it holds.
pub mod Places
pub mod Inverse
pub mod Filled
pub mod Squares
pub mod Rests
pub mod Calls
