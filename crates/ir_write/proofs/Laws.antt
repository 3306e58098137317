-- Laws of what the writing loops add: Rest of the rows that are left, Named of what docs/PORT.md names.
pub mod Rest
pub mod Named
