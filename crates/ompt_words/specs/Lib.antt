pub mod CommandLine
pub mod Form
pub mod Answers
