-- The definitions of the crate `ir_lower`: Lower is 001's `lower`, Finished has the finished types' names in lowering's order, Repeated which of
-- them came before, Call the lowering call, Left what a lowering leaves, Outcome its conditions in their order, Unnumbered what it gives without order 5's numbers.
pub mod Lower
pub mod Finished
pub mod Repeated
pub mod Call
pub mod Left
pub mod Outcome
pub mod Table
pub mod Unnumbered
pub mod Unfold
pub mod Examples
