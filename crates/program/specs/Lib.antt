-- The definitions of the crate `program`.
pub mod Lines
pub mod Print
