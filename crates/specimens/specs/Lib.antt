-- The specimens of paper 01 that are marked for proof.
pub mod Specimens
