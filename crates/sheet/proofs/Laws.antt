-- Laws of the definitions in specs/: Numbers of rows as numbers, Packs from rows to numbers and names and back, Unpacks the other way,
-- Sheets of both for the two buffers of a sheet, Formed what the forms of both sheets say alike, Named what docs/PORT.md names.
pub mod Numbers
pub mod Packs
pub mod Unpacks
pub mod Sheets
pub mod Formed
pub mod Named
