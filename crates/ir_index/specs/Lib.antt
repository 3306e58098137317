-- The definitions of the crate `ir_index`: Heads has the heads of finished types turn by turn, Blocks what is known of a block of them and of those behind it.
pub mod Heads
pub mod Blocks
