-- The definitions of the crate `ir_checks`: Kinds has the types of one kind.
pub mod Kinds
