pub mod Busy
pub mod Frames
