-- Laws of the definitions in specs/. No contract cites them.
pub mod Decimals
pub mod Documents
pub mod Records
pub mod ByRows
pub mod Fine
pub mod Held
pub mod Nested
pub mod Handled
pub mod Children
pub mod Items
pub mod Finished
pub mod Round
pub mod Call
pub mod Values
pub mod Table
