-- The definitions of the crate `ir_types`: Types has 003's values, Row0 the numbers of row 0 by name, Rows the graph as rows, Sheet the graph
-- sheet, Form the test of a graph's form, Label the label call, Refuses its refusal as the table lists it, Distinct names in a list of
-- definitions, Last the rule before order 4, Ok the widths of a graph's texts and numbers, Unnumbered graphs without order 5's numbers.
pub mod Tags
pub mod Types
pub mod Row0
pub mod Rows
pub mod Sheet
pub mod Form
pub mod Label
pub mod Refuses
pub mod Table
pub mod References
pub mod Back
pub mod Distinct
pub mod Last
pub mod Ok
pub mod Unnumbered
pub mod Unfold
pub mod Examples
