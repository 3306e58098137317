-- Laws of the definitions in specs/ and of those that they cite, those below before those above. The head of each file says what it holds.
pub mod Numbers
pub mod Spellings
pub mod Narrow
pub mod Named
