pub mod Agreed
pub mod Called
