pub mod Opened
pub mod Effects
pub mod Returns
pub mod Links
pub mod Orderly
