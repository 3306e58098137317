-- The definitions of the crate `ir_append`: Grows says what adding rows to a graph sheet does, Spelled what texts a row has, Stored what storing those
-- into the names does, Row0 what row 0 of a graph sheet holds, Whole what a graph sheet is that is written as a whole.
pub mod Grows
pub mod Spelled
pub mod Stored
pub mod Row0
pub mod Whole
