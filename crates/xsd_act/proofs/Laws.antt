-- Laws of the definitions in specs/ and of those that they cite, those below before those above. The head of each file says what it holds.
pub mod Parts
pub mod Ready
pub mod After
pub mod Needs
pub mod Room
pub mod Done
pub mod Named
