-- The definitions that the contracts of the crate `printing` cite: Input what the program's input is, Work its work as a list of calls, Print what it prints.
pub mod Input
pub mod Work
pub mod Print
