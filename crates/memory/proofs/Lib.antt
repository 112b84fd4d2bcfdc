pub mod Bytes
pub mod ByTurns
pub mod Checks
pub mod Refusals
pub mod Sides
