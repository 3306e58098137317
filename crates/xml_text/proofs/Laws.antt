-- Laws of the definitions in specs/. No contract cites them.
pub mod Tags
pub mod Marks
pub mod Root
pub mod Call
pub mod Named
pub mod Plain
