-- Laws of the definitions in specs/ and of those that they cite, those below before those above. The head of each file says what it holds.
pub mod Ready
pub mod After
pub mod Decisions
pub mod Steps
pub mod Records
pub mod Loop
pub mod Good
pub mod Counted
pub mod Calls
