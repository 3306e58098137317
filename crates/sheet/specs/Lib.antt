-- The definitions of the crate `sheet`: what the schema sheet and the graph sheet share.
pub mod Rows
pub mod Limits
pub mod Returned
pub mod Results
pub mod Lengths
pub mod Form
pub mod Calls
pub mod Unfold
