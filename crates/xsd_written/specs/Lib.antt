-- The definitions of the crate `xsd_written`: Decimal has numbers as digits, Markup tags one behind the other, Schema the markup and the text of a schema by
-- items, Call what the call of order 8 says of itself, Table the same case by case, Round what its text is read as. ByRows is the same text told row by row, for the
-- code; Reads is what proofs say of markup that is read. Examples are by computation.
pub mod Decimal
pub mod Markup
pub mod Schema
pub mod Call
pub mod ByRows
pub mod Reads
pub mod Table
pub mod Round
pub mod Unfold
mod Examples
