-- What the contracts of the code and the proofs need besides.
pub mod Lexemes
pub mod Names
pub mod WordViews
pub mod Grammar
pub mod Derivation
pub mod Closing
pub mod Reading
pub mod Nodes
pub mod Keeping
pub mod Growth
pub mod Codes
pub mod ReaderViews
pub mod LastChildren
