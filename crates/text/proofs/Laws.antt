-- Laws of the definitions in specs/ and of those that they cite, those below before those above. The head of each file says what it holds.
pub mod Tests
pub mod Texts
pub mod Every
pub mod Pairs
pub mod Class
pub mod Characters
pub mod Local
pub mod Bits
pub mod Table
pub mod Agree
pub mod Utf8
pub mod Trim
pub mod Std
pub mod Named
