-- The definitions of the crate `xsd_read`, those below before those above. The head of each file says what it holds.
pub mod Due
pub mod Events
pub mod Records
pub mod Good
