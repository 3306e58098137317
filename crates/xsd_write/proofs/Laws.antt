-- Laws of the definitions in specs/. No contract cites them.
pub mod Puts
pub mod Rows
pub mod Spell
pub mod Held
pub mod Calls
pub mod Named
