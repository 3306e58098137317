-- The definitions of the crate `xml_text`: what its answers say in the terms of `xml`.
pub mod Answers
