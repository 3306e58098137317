-- What the exported calls return and store, as numbers.
pub mod Exported
