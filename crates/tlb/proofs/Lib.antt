pub mod Harts
pub mod Scans
pub mod Sparse
