-- Laws of the definitions in specs/ and of those that they cite, those below before those above. The head of each file says what it holds.
pub mod Characters
pub mod Cases
pub mod Writing
pub mod Read
pub mod Scans
pub mod Snake
pub mod Names
pub mod Lengths
pub mod Compared
pub mod Examples
pub mod Named
pub mod Rules
pub mod Twice
pub mod Plain
