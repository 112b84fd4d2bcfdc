pub mod Counting
pub mod Finding
pub mod Soundness
pub mod Stacks
pub mod Takes
