-- Laws of the definitions in specs/, in the order in which they build on each other.
--     Grows         rows added one after the other, and one row
--     Onward        rows that are being added
--     Whole         a graph sheet written as a whole
--     Stored        texts stored into the names
--     Recipe        the row that a recipe gives
--     Named         laws that docs/PORT.md names
pub mod Grows
pub mod Onward
pub mod Whole
pub mod Stored
pub mod Recipe
pub mod Named
