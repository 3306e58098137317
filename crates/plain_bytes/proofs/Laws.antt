-- Laws of the definitions in specs/, those below before those above. The head of each file says what it holds.
pub mod Zeros
pub mod Runs
pub mod Same
pub mod Copied
