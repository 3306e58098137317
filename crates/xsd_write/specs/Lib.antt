-- The definitions of the crate `xsd_write`: Puts says what a store of a text leaves, Texts has the parts of a row's text that the code writes, Parts
-- what is written of a sheet's part, Steps what the steps of a writing leave.
pub mod Texts
pub mod Parts
pub mod Puts
pub mod Steps
