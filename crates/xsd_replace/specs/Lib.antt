-- The definitions of the crate `xsd_replace`, those below before those above. The head of each file says what it holds.
pub mod Head
pub mod Offsets
pub mod Spots
