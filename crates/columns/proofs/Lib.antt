-- What the proofs of the crate `columns` share.
pub mod Laws
