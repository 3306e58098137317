-- The laws that the proofs of this crate cite. No contract cites them.
pub mod Laws
