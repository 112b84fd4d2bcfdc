pub mod Cells
pub mod Interleave
pub mod Block
