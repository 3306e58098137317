-- The definitions of the crate `ir_label`, those below before those above. The head of each file says what it holds.
pub mod Lines
pub mod Spot
