-- Laws of the definitions in specs/ and of those that they cite, those below before those above. The head of each file says what it holds.
pub mod Kinds
pub mod Modes
pub mod Change
pub mod Open
pub mod Pairs
pub mod Bounds
pub mod States
pub mod Row0
pub mod Read
pub mod Named
