-- What the language is: what a reader must believe.
pub mod Words
pub mod WordClasses
pub mod Tree
pub mod Productions
pub mod Heads
pub mod Faults
pub mod OutOfLanguage
pub mod Numbered
pub mod Texts
pub mod Places
