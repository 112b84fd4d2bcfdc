pub mod Address
pub mod Frames
pub mod Layout
pub mod Levels
pub mod Making
pub mod Rules
