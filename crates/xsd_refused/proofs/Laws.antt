-- Laws of the simple types that lowering refuses, by the numbers at the places of a sheet. The head of each file says what it holds.
pub mod Codes
pub mod Base
pub mod Refused
pub mod Count
pub mod Finished
pub mod Named
