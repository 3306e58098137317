-- The definitions of the crate `graph_form`, those below before those above. The form itself is `graph_form` of the crate `ir_types`. The head of each
-- file says what it holds.
pub mod Tests
pub mod Rules
pub mod Call
