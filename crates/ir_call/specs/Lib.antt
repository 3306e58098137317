-- The definitions of the crate `ir_call`: Steps has what the steps of a lowering are handed and leave.
pub mod Steps
