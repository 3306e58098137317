-- Laws and proofs of the crate `xml_parts`.
pub mod Laws
