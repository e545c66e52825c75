mod Coming
mod Programs
mod Searching
mod Sound
pub mod Storing
pub mod Telling
mod Walking
