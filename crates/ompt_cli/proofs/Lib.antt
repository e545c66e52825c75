pub mod Halting
pub mod Handing
pub mod Keeping
pub mod Reading
pub mod Telling
pub mod Written
pub mod Carrying
pub mod Beside
