-- The definitions of the crate `xsd_types`: Types has 002's values, State the reader's state, Row0 the numbers of row 0 by name, Rows the
-- state as rows, Sheet the sheet of a state,
-- Good the test of a good sheet but for the count, Back the way back, Places the rows by their places, Refused the simple types that lowering refuses, Count the count
-- of order 7 with `good`, `state_of` and `sheet_of`, Clear the clearing call, Convert the conversion, Choice what order 3 chooses between, Unnumbered the states without order 5's numbers.
pub mod Tags
pub mod Contexts
pub mod Types
pub mod State
pub mod Row0
pub mod Rows
pub mod Sheet
pub mod Good
pub mod Back
pub mod Places
pub mod Refused
pub mod Count
pub mod Clear
pub mod Convert
pub mod Table
pub mod Choice
pub mod Unnumbered
pub mod Unfold
pub mod Examples
