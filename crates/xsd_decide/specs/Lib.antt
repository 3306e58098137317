-- The definitions of the crate `xsd_decide`, those below before those above. The head of each file says what it holds.
pub mod Reads
pub mod Rows
pub mod Facets
pub mod Schema
