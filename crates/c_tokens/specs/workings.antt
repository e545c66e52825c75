-- What the contracts of the code and the proofs need besides.
pub mod Classes
pub mod Lines
pub mod Tails
pub mod Items
pub mod Tokens
