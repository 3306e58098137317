-- Laws of the definitions in specs/. Row0 of row 0's ten numbers. From a state: Order of tags behind heads, Groups of a head with its children, Sound rows of a proper state,
-- Items and Back from rows to the state again, Events c of the rows, Unnumbered the rows with c cleared, Made the tests of a good sheet, SheetOf both for a state's
-- sheet, Clear for a cleared one with its count.
-- From a sheet: Shapes and Rows of a row by its tag, Heads with what stands behind them, Parse of rows in order, Open of the tests of row 0,
-- Parts of a good sheet, Whole the test of its names as a whole, Read its rows, StateOf its state. Places of the rows by their places, Refused of the simple types that
-- lowering refuses. Choice what order 3 leaves as it was.
-- Counted the count of order 7 by items and rows, Count the sheets that have it, Convert the conversion. Named what docs/DESIGN-PASS.md names.
pub mod Row0
pub mod Order
pub mod Groups
pub mod Sound
pub mod Items
pub mod Events
pub mod Unnumbered
pub mod Back
pub mod Made
pub mod SheetOf
pub mod Table
pub mod Shapes
pub mod Rows
pub mod Heads
pub mod Parse
pub mod Open
pub mod Parts
pub mod Whole
pub mod Read
pub mod StateOf
pub mod Places
pub mod Refused
pub mod Choice
pub mod Counted
pub mod Count
pub mod Clear
pub mod Convert
pub mod Named
