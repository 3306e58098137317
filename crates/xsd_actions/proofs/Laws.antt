-- Laws of the definitions in specs/. Agree: an outcome of the handlers beside a decision. Changes: the open type alone is changed; Simples for a
-- simple type, Contents and Inside for the content of a complex type. Tops: outside a type. Starts, Empties and Closes for each kind of event,
-- and Decides for all: what the handlers do is what was decided.
pub mod Agree
pub mod Changes
pub mod Simples
pub mod Contents
pub mod Inside
pub mod Tops
pub mod Starts
pub mod Empties
pub mod Closes
pub mod Decides
