-- Laws of the definitions in specs/ and of those that they cite, those below before those above. The head of each file says what it holds.
pub mod Pairs
pub mod Attributes
pub mod Words
pub mod Places
pub mod Cut
pub mod Tests
pub mod Form
pub mod Records
pub mod Short
pub mod Tried
