-- Laws of the definitions in specs/: Lowered of what lowering makes of a row of numbers, Groups of its scans over a
-- head with its children, Items of those over finished items, Definitions of a type's rows, Types of the places that stand for a graph's types, Inside of
-- the tag of such a place, Graph of a whole sheet.
pub mod Lowered
pub mod Groups
pub mod Items
pub mod Definitions
pub mod Types
pub mod Inside
pub mod Graph
pub mod Named
