pub mod Hearing
pub mod Driving
pub mod Drivers
