-- Laws of the definitions in specs/.
pub mod Row0
pub mod Distinct
pub mod Last
pub mod GraphRows
pub mod GraphOrder
pub mod FormParts
pub mod RowsForm
pub mod GraphForm
pub mod Label
pub mod Words
pub mod Refuses
pub mod Table
pub mod References
pub mod Back
pub mod GraphSmall
pub mod Whole
