pub mod Handed
pub mod Record
pub mod Registering
