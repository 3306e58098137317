-- The definitions of the crate `xml_parts`: what its answers say in the terms of `xml`.
pub mod Answers
