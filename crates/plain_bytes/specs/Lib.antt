-- The definitions of the crate `plain_bytes`: Scan says what the exported functions pass over, Words what a word of eight bytes is and what is computed of it;
-- Laws has what each run must prove.
pub mod Scan
pub mod Words
pub mod Laws
