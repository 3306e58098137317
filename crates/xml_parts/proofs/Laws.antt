-- Laws of the definitions in specs/. No contract cites them.
pub mod Classes
pub mod Skips
pub mod Held
pub mod Letters
pub mod Alike
pub mod Matched
