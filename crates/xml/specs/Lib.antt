-- The definitions of the crate `xml`: XML 1.0 (Fifth Edition) as far as order 1 reads it. Tape is the numbers of the events, Classes the classes of
-- characters, Grammar the productions as derivations, Call the call by them. Of the others, which only proofs and inner contracts use, Steps to Document are
-- a recogniser of the same documents, Accepted and Written are for its laws.
pub mod Tape
pub mod Classes
pub mod Grammar
pub mod Call
pub mod Steps
pub mod Values
pub mod Prolog
pub mod Tags
pub mod Root
pub mod Document
pub mod Accepted
pub mod Written
pub mod Unfold
pub mod Examples
