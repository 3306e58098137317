-- The definitions of the crate `ir_write`: Kinds says which rows the types of one kind have.
pub mod Kinds
