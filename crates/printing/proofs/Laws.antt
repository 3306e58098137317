-- Laws of the definitions in specs/.
pub mod Input
pub mod Print
