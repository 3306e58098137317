-- XML 1.0 by its productions (specs/Grammar.antt) and the recogniser (specs/Document.antt), both ways.
pub mod Basics
pub mod Markup
pub mod References
pub mod Texts
pub mod Tags
pub mod Contents
pub mod Prolog
pub mod Around
pub mod Documents
pub mod Taken
