-- What the language is: what a reader must believe.
pub mod Bytes
pub mod Blanks
pub mod Words
pub mod Symbols
pub mod Quoted
pub mod Places
pub mod Pieces
pub mod Ending
pub mod Faults
