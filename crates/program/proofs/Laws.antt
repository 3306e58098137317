-- Laws of the definitions in specs/.
pub mod Lines
pub mod Print
pub mod Named
