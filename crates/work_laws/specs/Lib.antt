pub mod Sections
pub mod Sizes
pub mod Told
