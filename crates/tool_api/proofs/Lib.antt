pub mod Bits
pub mod Registering
