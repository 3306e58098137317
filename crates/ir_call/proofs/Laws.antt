-- Laws of the definitions in specs/: Few of how many rows lowering makes, Graph of the graph that is written, Calls of the call's refusals, Named of what docs/PORT.md names.
pub mod Few
pub mod Graph
pub mod Calls
pub mod Named
