pub mod Lines
pub mod Masks
