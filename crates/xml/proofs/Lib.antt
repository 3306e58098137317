-- Laws of the crate `xml`.
pub mod Laws
