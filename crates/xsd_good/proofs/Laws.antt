-- Laws of the definitions in specs/ and of those that they cite, those below before those above. The head of each file says what it holds.
pub mod Rules
pub mod Scan
pub mod Heads
pub mod Open
pub mod Held
pub mod Good
pub mod Clear
pub mod Bare
pub mod Convert
pub mod Named
