-- Laws of the crate `xsd_written`.
pub mod Laws
