-- Laws and proofs of the crate `program`.
pub mod Laws
