-- Laws of the definitions in specs/ and of those that they cite, those below before those above. The head of each file says what it holds.
pub mod Copy
pub mod Buffer
pub mod Zeros
pub mod Middle
pub mod Around
pub mod Shift
