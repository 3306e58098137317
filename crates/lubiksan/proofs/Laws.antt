-- Laws of the definitions in specs/, a module for each file there.
pub mod Exported
