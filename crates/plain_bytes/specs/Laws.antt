-- What each run must prove: its stops find every byte that is not of the run. Those below before those above.
pub mod Words
pub mod Bytewise
pub mod Finds
