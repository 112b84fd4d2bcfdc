pub mod Steered
pub mod Steering
