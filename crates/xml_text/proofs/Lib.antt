-- Laws and proofs of the crate `xml_text`.
pub mod Laws
