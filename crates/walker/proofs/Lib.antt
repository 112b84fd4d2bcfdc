pub mod Locality
pub mod Pages
pub mod Serving
pub mod Steps
