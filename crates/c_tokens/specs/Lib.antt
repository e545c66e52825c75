pub mod language
pub mod workings
