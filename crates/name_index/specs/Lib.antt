-- The definitions of the crate `name_index`: Hash has the bucket of a name, Index what callers are told.
pub mod Hash
pub mod Index
