-- The definitions of the crate `xsd_good`, those below before those above. The head of each file says what it holds.
pub mod Forms
pub mod Rules
pub mod Row0
pub mod Heads
pub mod End
