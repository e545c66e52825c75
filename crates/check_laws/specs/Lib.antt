pub mod Scopes
pub mod LoopForm
pub mod ListedNames
