-- The definitions that the contracts of the crate `ir_row` cite beyond those of `ir_rows` and `ir_append`.
pub mod Recipes
