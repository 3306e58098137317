-- Laws of the definitions in specs/: Turns of the heads turn by turn, Names of their names, Steps of the heads entered and asked one by one, Blocks of the
-- search block by block.
pub mod Turns
pub mod Names
pub mod Steps
pub mod Blocks
