-- The definitions of the crate `xsd_parser`: Event is the abstract event, Words and Seen what is seen of a tag, Tape the records that stand for events, Handlers 000's handlers,
-- Step one event with its refusals, Read the reading call, EventText events that are texts, Accepted records that are accepted, Whole where a tape
-- may be cut, Pieces a tape read in pieces, Children the direct children of a schema.
pub mod Kinds
pub mod Words
pub mod Event
pub mod Seen
pub mod Tape
pub mod Handlers
pub mod Step
pub mod Read
pub mod Table
pub mod Numbered
pub mod EventText
pub mod Accepted
pub mod Whole
pub mod Pieces
pub mod Children
pub mod Unfold
pub mod CutExample
pub mod Examples
