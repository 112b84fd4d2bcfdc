pub mod Harts
pub mod Rows
pub mod Slots
pub mod Trying
pub mod Ways
