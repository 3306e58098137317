-- Laws of the definitions that the contracts cite: Kinds of the places of one kind from a place on, Counts of the counts of types and elements, Named of
-- what docs/PORT.md names.
pub mod Kinds
pub mod Counts
pub mod Named
