-- The definitions of the crate `ir_rows`: Places has the names of types by places, Lowered what lowering makes of each row, Types the types by the places
-- of their heads, Parts the same of a part of a sheet.
pub mod Places
pub mod Lowered
pub mod Types
pub mod Parts
pub mod Unfold
pub mod Examples
