-- The definitions of the crate `xsd_act`, those below before those above. The head of each file says what it holds.
pub mod Ready
pub mod Needs
pub mod Acts
