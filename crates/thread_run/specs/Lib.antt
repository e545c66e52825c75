pub mod Driving
pub mod Drivers
