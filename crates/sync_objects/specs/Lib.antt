pub mod Answers
pub mod Faults
pub mod Owners
pub mod Places
pub mod View
