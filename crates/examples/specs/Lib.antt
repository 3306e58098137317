-- Examples by computation over reading and lowering: Specimen is the printed specimen of paper 01, Numbers has lowering's numbers, Graphs the graph of
-- each kind of type, Repeated the names that come twice, Labels the label call. Calls writes the calls.
pub mod Calls
mod Specimen
mod Numbers
mod Graphs
mod Repeated
mod Labels
