-- Laws of the definitions that the contracts cite. The head of each file says what it holds.
pub mod Unfold
pub mod Words
pub mod Named
