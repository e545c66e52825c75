pub mod Serving
pub mod Visiting
