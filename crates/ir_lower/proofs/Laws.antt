-- Laws of the definitions in specs/.
pub mod Cardinality
pub mod References
pub mod Types
pub mod Repeated
pub mod Refusals
pub mod GraphOk
pub mod Left
pub mod Members
pub mod Outcome
pub mod Table
pub mod Form
pub mod Names
pub mod Unnumbered
pub mod Count
